-- What has a colour, and what is made of sides that have colours.
use Rattle.std.proofs.Common.{◌≡◌, ◌≢◌, ℕ, refl, sym, ◌∙◌}
use Rattle.om_colour.specs.declared.Colour.{Colour}
use Rattle.om_colour.specs.declared.Colour.TheVariants.{One, Three, AntiThree, Eight}
use Rattle.om_colour.specs.Lines.{Side, IsSlot, starts_line, ends_line, anti_colour}
use Rattle.om_colour.specs.Lines.Side.{vertex}
use Rattle.om_colour.specs.Choices.{SendsOn}
use Rattle.om_colour.specs.Ending.{HasColour, IsMatched}
use Rattle.om_colour.specs.Laws.{LegHasColour, VertexHasColour, EachLineEndsAt}
use Rattle.om_colour.proofs.Ending.{each_ends}

pub anti_starts : (c : Colour) → starts_line (anti_colour c) ≡ ends_line c
anti_starts One = refl
anti_starts Three = refl
anti_starts AntiThree = refl
anti_starts Eight = refl

pub anti_ends : (c : Colour) → ends_line (anti_colour c) ≡ starts_line c
anti_ends One = refl
anti_ends Three = refl
anti_ends AntiThree = refl
anti_ends Eight = refl

pub leg-has_colour : LegHasColour
leg-has_colour k c = record { matched = tt; gives = ((λ e. e), (λ e. e)); takes = ((λ e. e), (λ e. e)) }

-- a vertex with sides of the colours that its choice sends on, beyond all slots but h
matched_vertex : (to : ℕ → ℕ) (h : ℕ) (colours : ℕ → Colour) (beyond : ℕ → Side) → SendsOn to colours → IsSlot h → ((s : ℕ) → IsSlot s → s ≢ h → HasColour (beyond s) (colours s))
    → IsMatched (vertex to h beyond)
matched_vertex to h colours beyond sends i parts = (
  i,
  (λ s j. (sends.choice.slots s j, sends.choice.away s j)),
  (λ s j n. let w = parts s j n in (
    w.matched,
    ((λ g. (sends.arrives s j).1 (w.gives.0 g)), (λ l. w.gives.1 ((sends.arrives s j).0 l))),
    ((λ t. (sends.leaves s j).1 (w.takes.0 t)), (λ r. w.takes.1 ((sends.leaves s j).0 r))),
  )),
)

pub vertex-has_colour : VertexHasColour
vertex-has_colour to h colours beyond sends i parts = record {
  matched = matched_vertex to h colours beyond sends i parts;
  gives = ((λ g. anti_starts (colours h) ∙ (sends.leaves h i).0 g), (λ e. (sends.leaves h i).1 (sym (anti_starts (colours h)) ∙ e)));
  takes = ((λ l. anti_ends (colours h) ∙ (sends.arrives h i).0 l), (λ e. (sends.arrives h i).1 (sym (anti_ends (colours h)) ∙ e)));
}

pub each_ends_at : EachLineEndsAt
each_ends_at to colours beyond sends parts s k i starts =
    let w = parts s i in
    let r = each_ends (beyond s) (vertex to s beyond) w.matched (matched_vertex to s colours beyond sends i (λ r j n. parts r j)) (λ g. (sends.arrives s i).1 (w.gives.0 g)) k starts in
    (r.0, (s, i, r.1))
