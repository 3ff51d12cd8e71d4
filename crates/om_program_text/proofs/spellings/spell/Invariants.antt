use Rattle.std.proofs.Common.{◌≡◌, ◌<◌, ℕ, length, get_or}
use Rattle.om_program_text.specs.declared.spellings.Spelling.{Spelling}
use Rattle.om_program_text.specs.Spelt.{IsSpelt}
use Rattle.om_program_text.proofs.spellings.spell.Given as goal

abbrev pub invariant-loop-k : goal.invariant-loop-k
invariant-loop-k l = record {
  same : length l.numbers ≡ length l.initial.numbers;
  spelt : (j : ℕ) (s : Spelling) → j < l.k → IsSpelt j (get_or l.numbers j s);
}
