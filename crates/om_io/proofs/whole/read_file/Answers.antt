use Rattle.std.proofs.Common.{arith, ◌∙◌, ◌≡◌, ◌+◌, vec_len}
use Rattle.std.proofs.lemmas.Grind.{common_steps}
use Rattle.om_io.proofs.Parts.{grown_told}
use Rattle.om_io.proofs.whole.read_file.Goals as goal

pub loop-text-preserved : goal.loop-text-preserved
loop-text-preserved g c =
    let inv = c.loop-text.invariant in
    let file = g.F.Folder.file in
    let longer : vec_len c.extend_from_slice.new.self ≡ vec_len c.loop-text.text + c.in_ok-count.count = grind (arith, common_steps, c.in_ok-extend_from_slice.ensures.len) in
    let items = c.in_ok-extend_from_slice.ensures.items in
    record {
      within = omega (arith, c.len-at.ensures);
      so_far = grown_told (file c.args.files.now c.args.name.now) (file c.loop-text.files c.args.name.now) c.loop-text.text.items c.extend_from_slice.new.self.items c.loop-text.piece c.read_at.new.to (vec_len c.loop-text.text) c.len-at.result c.in_ok-count.count (vec_len c.extend_from_slice.new.self) c.len-at.ensures (inv.files c.args.name.now) inv.so_far c.in_ok-count.ensures.bytes (grind (arith, common_steps, items)) longer;
      files = λ q. c.read_at.ensures.files q ∙ inv.files q;
      others = λ q h. c.read_at.ensures.others q h ∙ inv.others q h;
      later = omega (arith, inv.later, c.read_at.ensures.cause.later);
    }
