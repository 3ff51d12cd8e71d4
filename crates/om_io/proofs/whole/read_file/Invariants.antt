use Rattle.std.proofs.Common.{◌≡◌, ◌≢◌, ◌≤◌, ◌-◌, ℕ, List, take, vec_len, IfSome}
use Rattle.om_io.proofs.whole.read_file.Given as goal

abbrev pub invariant-loop-text : goal.invariant-loop-text
invariant-loop-text g l =
    let file = g.F.Folder.file in
    let faults = g.F.Folder.faults in
    record {
      within : vec_len l.text ≤ l.limit;
      so_far : IfSome (file l.fn.files l.name) (λ bytes. l.text.items ≡ take (vec_len l.text) bytes);
      files : (q : List ℕ) → file l.files q ≡ file l.fn.files q;
      others : (q : List ℕ) → q ≢ l.name → faults l.files q ≡ faults l.fn.files q;
      later : faults l.fn.files l.name ≤ faults l.files l.name;
    }

abbrev pub decreases-loop-text : goal.decreases-loop-text
decreases-loop-text g l = l.limit - vec_len l.text
