-- The first bad line of a text, said apart from the reader.
use Rattle.std.specs.Prelude.{◌≡◌, ℕ, ◌+◌, ◌-◌, ◌<◌, ◌≤◌, ◌⊎◌, ◌↔◌, if◌then◌else◌, List, [], ◌∷◌, ◌++◌, length, map, take, get_or, true, decimal, codes}
use Rattle.std.specs.List.{AllByRecursion}
use Rattle.std.specs.Str.{bytes_eq}
use Rattle.om_ring.specs.declared.numeral.Numeral.{Numeral}
use Rattle.om_legs.specs.Legs.{IsLegSet}
use Rattle.om_lorentz.specs.declared.structures.Structure.{Structure}
use Rattle.om_model.specs.Name.{is_name}
use Rattle.om_code.specs.declared.code.Code.{Code}
use Rattle.om_code.specs.Plain.{IsPlain}
use Rattle.om_io.specs.Lines.{Words}
use Rattle.om_program_text.specs.ProgramText.{program_lines}
use Rattle.om_program_text.specs.Words.{product_word}
use Rattle.om_model.specs.LegSetText.{leg_set_word}
use Rattle.om_model.specs.Words.{structure_word}
use Rattle.om_ring.specs.Numerals.{NumeralFits}
use Rattle.om_asm.specs.InRange.{CodeInRange}
use Rattle.om_asm.specs.declared.fault.AsmKind.{AsmKind}
use Rattle.om_asm.specs.declared.fault.AsmKind.TheVariants.{Name}
use Rattle.om_model.specs.Rules.{HasLength}

-- the text of some code begins with these lines
pub record BeginsProgram (lines : List Words) : Type 0 where
  pub code : Code
  pub plain : IsPlain code
  pub range : CodeInRange code
  pub later : List Words
  pub begins : program_lines code ≡ lines ++ later

-- line k, counted from 0; no word where there is none
abbrev pub line_at : ℕ → List Words → Words
line_at k lines = get_or lines k []

abbrev pub IsName : List ℕ → Type 0
IsName w = is_name w ≡ true

-- 1 to 8 numerals of 64 bits
abbrev pub IsReadableProduct : List Numeral → Type 0
IsReadableProduct p = HasLength p × AllByRecursion NumeralFits p

-- the words of a leg line with some name
pub record IsLegForm (words : Words) : Type 0 where
  pub name : List ℕ
  pub named : IsName name
  pub texts : words ≡ codes "leg" ∷ name ∷ []

-- the words of a den line with some name
pub record IsDenForm (words : Words) : Type 0 where
  pub set : ℕ
  pub name : List ℕ
  pub some : 1 ≤ set
  pub legs : IsLegSet set
  pub named : IsName name
  pub texts : words ≡ codes "den" ∷ leg_set_word set ∷ name ∷ []

-- the words of a vertex line with some names
pub record IsVertexForm (words : Words) : Type 0 where
  pub structure : Structure
  pub order : ℕ
  pub names : List (List ℕ)
  pub factors : List (List Numeral)
  pub small : order < 256
  pub three : 3 ≤ length names
  pub four : length names ≤ 4
  pub named : AllByRecursion IsName names
  pub factor : 1 ≤ length factors
  pub few : length factors ≤ 3
  pub products : AllByRecursion IsReadableProduct factors
  pub texts : words ≡ codes "vertex" ∷ structure_word structure ∷ decimal order ∷ names ++ codes ":" ∷ map product_word factors

-- the line has the form of one that names fields
abbrev pub NamesFields : Words → Type 0
NamesFields words = IsVertexForm words ⊎ (IsLegForm words ⊎ IsDenForm words)

abbrev pub group_of_word : List ℕ → ℕ
group_of_word w =
    if bytes_eq w (codes "particle") then 1
    else if bytes_eq w (codes "vertex") then 2
    else if bytes_eq w (codes "leg") then 3
    else if bytes_eq w (codes "flow") then 4
    else if bytes_eq w (codes "den") then 5
    else if bytes_eq w (codes "slots") then 6
    else if bytes_eq w (codes "load") then 7
    else if bytes_eq w (codes "fuse") then 8
    else if bytes_eq w (codes "prop") then 8
    else if bytes_eq w (codes "key") then 9
    else if bytes_eq w (codes "end") then 10
    else 0

-- the place of a line's group in the order of groups, 0 for the first two lines
abbrev pub group_of : Words → ℕ
group_of [] = 0
group_of (w ∷ ws) = group_of_word w

-- a line has the form of one that names fields, and the line before it is of no later group
pub record NamesInPlace (before line : Words) : Type 0 where
  pub form : NamesFields line
  pub in_place : group_of before ≤ group_of line

-- a line, counted from 1, is the first bad one of a text that is no program, and of a kind
pub record IsFirstBad (lines : List Words) (line : ℕ) (kind : AsmKind) : Type 0 where
  pub counted : 1 ≤ line
  -- it is a line of the text, or the one that is missing behind the last
  pub within : line ≤ length lines + 1
  -- the lines before it begin the text of some code
  pub begins : BeginsProgram (take (line - 1) lines)
  -- with it they begin the text of none
  pub breaks : line ≤ length lines → BeginsProgram (take line lines) → ⊥
  -- its kind is Name exactly where it names fields, behind the first two lines, in its place and in the right form
  pub named : (kind ≡ Name) ↔ ((3 ≤ line) × NamesInPlace (line_at (line - 2) lines) (line_at (line - 1) lines))
