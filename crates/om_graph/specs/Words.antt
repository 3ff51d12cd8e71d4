-- The lines of sides as words of bytes, one byte a leg.
use Rattle.std.specs.Prelude.{ℕ, ◌+◌, ◌*◌, List, [], ◌∷◌, cond, eqb, ltb, Option, Some, map, slice_index}
use Rattle.std.specs.Int.{w64, from_le_bytes}
use Rattle.om_colour.specs.declared.TheConstants.{UPWARDS}
use Rattle.om_colour.specs.declared.Partial.{Partial}
use Rattle.om_colour.specs.declared.SlotPartials.{SlotPartials}
use Rattle.om_colour.specs.Partials.{end_at, into_at}
use Rattle.om_graph.specs.declared.Key.{Key}
use Rattle.om_graph.specs.declared.parts.Part.{Part}
use Rattle.om_graph.specs.declared.lines.Word.{Word}
use Rattle.om_graph.specs.declared.lines.Lines.{Lines}
use Rattle.om_graph.specs.Fillings.{key_at}
use Rattle.om_graph.specs.Vertices.{four_slots, partial_in, slot_partials}

-- numbers 0 to 7, and numbers 8 to 11 with 0 behind them
abbrev pub eight : (ℕ → ℕ) → List ℕ
eight f = f 0 ∷ f 1 ∷ f 2 ∷ f 3 ∷ f 4 ∷ f 5 ∷ f 6 ∷ f 7 ∷ []

abbrev pub upper : (ℕ → ℕ) → ℕ → ℕ
upper f k = cond (ltb k 4) (f (k + 8)) 0

-- the end of a line that stays within its side, or 0
abbrev pub kept : ℕ → ℕ
kept e = cond (eqb e UPWARDS) 0 e

-- 1 for a line that leaves it upwards
abbrev pub sent : ℕ → ℕ
sent e = cond (eqb e UPWARDS) 1 0

-- eight ends, as words
abbrev pub word_in : (ℕ → ℕ) → Word
word_in f = record { within = from_le_bytes w64 (eight (λ k. kept (f k))); upwards = from_le_bytes w64 (eight (λ k. sent (f k))) }

abbrev pub lines_in : Option Partial → Lines
lines_in o = record { low = word_in (end_at o); high = word_in (upper (end_at o)); into = into_at o }

abbrev pub lines_of_key : Key → Lines
lines_of_key k = lines_in (Some k.partial)

abbrev pub lines_behind : Option Key → Lines
lines_behind k = lines_in (partial_in (Some k))

-- what stands at the slots of a vertex that parts fill
abbrev pub keys_behind : List Part → List Key → List (Option Key)
keys_behind parts keys = four_slots (map (key_at keys) parts)

abbrev pub partials_behind : List Part → List Key → SlotPartials
partials_behind parts keys = slot_partials (keys_behind parts keys)

-- the ends in a word, where the lines that leave upwards end at e
abbrev pub through : Word → ℕ → ℕ
through w e = w.within + w.upwards * e

-- the ends in four words
abbrev pub merged : (a b c d : Word) → (x y z w : ℕ) → ℕ
merged a b c d x y z w = through a x + (through b y + (through c z + through d w))

-- eight numbers and the first four of others
abbrev pub twelve : List ℕ → List ℕ → List ℕ
twelve xs ys = slice_index xs 0 ∷ slice_index xs 1 ∷ slice_index xs 2 ∷ slice_index xs 3 ∷ slice_index xs 4 ∷ slice_index xs 5 ∷ slice_index xs 6 ∷ slice_index xs 7 ∷ slice_index ys 0 ∷ slice_index ys 1 ∷ slice_index ys 2 ∷ slice_index ys 3 ∷ []
