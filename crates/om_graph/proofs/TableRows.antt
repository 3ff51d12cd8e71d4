-- The rows of the colour table that are kept for the vertices.
use Rattle.std.proofs.Common.{◌≡◌, ℕ, zero, suc, ◌<◌, List, [], ◌∷◌, length, refl, ap, sym, ◌∙◌, arith, Option, Some, slice_get, get_or}
use Rattle.std.proofs.lemmas.Option.{slice_get_read}
use Rattle.om_colour.specs.Table.{Row, choice_count, choice_of}
use Rattle.om_model.specs.declared.model.Model.{Model}
use Rattle.om_model.specs.declared.model.Vertex.{Vertex}
use Rattle.om_model.specs.declared.process.Process.{Process}
use Rattle.om_model.specs.Model.{colours_of_vertex, choices_in}
use Rattle.om_model.specs.ModelLines.{choice_in}
use Rattle.om_graph.specs.Reactions.{HasRows}

pub there : {A : Type 0} (xs : List A) (k : ℕ) → k < length xs → (x : A) × (slice_get xs k ≡ Some x)
there {A} xs k l = by xs k l
  where
    by : (ys : List A) (n : ℕ) → n < length ys → (x : A) × (slice_get ys n ≡ Some x)
    by [] n l = absurd (omega arith)
    by (y ∷ ys) zero l = (y, refl)
    by (y ∷ ys) (suc n) l = by ys n (omega arith)

pub row_is : (m : Model) (rows : List Row) (k : ℕ) (row : Row) → HasRows m rows → k < length m.vertices → slice_get rows k ≡ Some row → colours_of_vertex m.particles (slice_get m.vertices k) ≡ Some row
row_is m rows k row h l e = let v = there m.vertices k l in ap (λ (o : Option Vertex). colours_of_vertex m.particles o) v.1 ∙ h.1 k v.0 row v.1 e

-- the same of a row that was read out of a reaction, which is seen as its model and process
pub row_read : (x : Model × Process) (m : Model) (p : Process) (rows : List Row) (k : ℕ) (row : Row) → x ≡ (m, p) → HasRows m rows → k < length x.0.vertices → row ≡ get_or rows k row → colours_of_vertex x.0.particles (slice_get x.0.vertices k) ≡ Some row
row_read x m p rows k row e h l g =
    let q : x.0 ≡ m = ap (λ (y : Model × Process). y.0) e in
    let n : length x.0.vertices ≡ length m.vertices = ap (λ (y : Model). length y.vertices) q in
    let r : slice_get rows k ≡ Some row = slice_get_read rows (length rows) k row refl (omega (arith, h.0)) g in
    ap (λ (y : Model). colours_of_vertex y.particles (slice_get y.vertices k)) q ∙ row_is m rows k row h (omega arith) r

pub counted : (o : Option Row) (row : Row) → o ≡ Some row → choice_count row ≡ choices_in o
counted o row e = ap choices_in (sym e)

pub chosen : (o : Option Row) (row : Row) (c : ℕ) → o ≡ Some row → choice_of row c ≡ choice_in o c
chosen o row c e = ap (λ p. choice_in p c) (sym e)
