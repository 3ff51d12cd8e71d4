-- A model breaks no rule, or has one first fault; so a file says one thing.
use Rattle.std.proofs.Common.{◌≡◌, ◌≢◌, ℕ, List, [], ◌∷◌, false, cond, eqb, Result, Ok, Err, inl, inr, refl, sym, ◌∙◌, ap, subst}
use Rattle.std.proofs.lemmas.Bool.{cases_Bool}
use Rattle.om_ring.specs.Ops.{Ops}
use Rattle.om_model.proofs.Rising.{numbers_order}
use Rattle.om_model.specs.Rules.{Checks, fault_lt, rank_of_rule, rank_of_table}
use Rattle.om_model.specs.declared.model.Model.{Model}
use Rattle.om_model.specs.declared.rules.Table.{Table}
use Rattle.om_model.specs.declared.rules.Table.TheVariants as table
use Rattle.om_model.specs.declared.rules.ModelRule.{ModelRule}
use Rattle.om_model.specs.declared.rules.ModelRule.TheVariants.{RepeatedName, BadPattern, NoInverse, NotSymmetric, Limit}
use Rattle.om_model.specs.declared.rules.RuleFault.{RuleFault}
use Rattle.om_modelfile.specs.declared.fault.ModelFault.{ModelFault}
use Rattle.om_modelfile.specs.declared.fault.ModelFault.TheVariants.{NotToml, MissingKey, WrongKind, UnknownKey, BadNumber, BadName, UnknownName, TooMuch, Rule, Memory}
use Rattle.om_modelfile.specs.ModelOf.{SaysModel, form_of}

abbrev table_of_rank : ℕ → Table
table_of_rank n = cond (eqb n 0) table.Top (cond (eqb n 1) table.Parameter (cond (eqb n 2) table.Particle table.Vertex))

table_of_rank-rank : (t : Table) → table_of_rank (rank_of_table t) ≡ t
table_of_rank-rank table.Top = refl
table_of_rank-rank table.Parameter = refl
table_of_rank-rank table.Particle = refl
table_of_rank-rank table.Vertex = refl

abbrev rule_of_rank : ℕ → ModelRule
rule_of_rank n = cond (eqb n 0) Limit (cond (eqb n 1) RepeatedName (cond (eqb n 2) BadPattern (cond (eqb n 3) NoInverse NotSymmetric)))

rule_of_rank-rank : (r : ModelRule) → rule_of_rank (rank_of_rule r) ≡ r
rule_of_rank-rank Limit = refl
rule_of_rank-rank RepeatedName = refl
rule_of_rank-rank BadPattern = refl
rule_of_rank-rank NoInverse = refl
rule_of_rank-rank NotSymmetric = refl

-- two faults of which neither is before the other are the same
same_fault : {E : Type 0} (o : Ops E) (a b : RuleFault) → fault_lt o a b ≡ false → fault_lt o b a ≡ false → a ≡ b
same_fault o a b h g =
    let codes = numbers_order.total (rank_of_table a.table ∷ a.row ∷ rank_of_rule a.rule ∷ []) (rank_of_table b.table ∷ b.row ∷ rank_of_rule b.rule ∷ []) h g in
    let tables : rank_of_table a.table ≡ rank_of_table b.table = cc in
    let rows : a.row ≡ b.row = cc in
    let rules : rank_of_rule a.rule ≡ rank_of_rule b.rule = cc in
    let t : a.table ≡ b.table = sym (table_of_rank-rank a.table) ∙ ap table_of_rank tables ∙ table_of_rank-rank b.table in
    let r : a.rule ≡ b.rule = sym (rule_of_rank-rank a.rule) ∙ ap rule_of_rank rules ∙ rule_of_rank-rank b.rule in
    let first : a ≡ record { rule = b.rule; table = a.table; row = a.row } = ap (λ (x : ModelRule). let f : RuleFault = record { rule = x; table = a.table; row = a.row } in f) r in
    let second : (let f : RuleFault = record { rule = b.rule; table = a.table; row = a.row } in f) ≡ record { rule = b.rule; table = b.table; row = a.row } =
    ap (λ (x : Table). let f : RuleFault = record { rule = b.rule; table = x; row = a.row } in f) t in
    let third : (let f : RuleFault = record { rule = b.rule; table = b.table; row = a.row } in f) ≡ b =
    ap (λ (x : ℕ). let f : RuleFault = record { rule = b.rule; table = b.table; row = x } in f) rows in
    first ∙ second ∙ third

module _ {E : Type 0} (o : Ops E) where
  -- a first fault isn't after another first fault
  not_before : (m : Model) (a b : RuleFault) → Checks o m (Err a) → Checks o m (Err b) → fault_lt o a b ≡ false
  not_before m a b h g = elim (cases_Bool (fault_lt o a b)) [
    | inl before ↦ absurd (g.1 a before h.0)
    | inr e ↦ e
  ]

  pub one_check : (m : Model) (r s : Result (Unit {0}) RuleFault) → Checks o m r → Checks o m s → r ≡ s
  one_check m (Ok u) (Ok v) h g = refl
  one_check m (Ok u) (Err b) h g = absurd (h b g.0)
  one_check m (Err a) (Ok v) h g = absurd (g a h.0)
  one_check m (Err a) (Err b) h g = ap Err (same_fault o a b (not_before m a b h g) (not_before m b a g h))

  -- what is said of a model that has been held to the rules
  abbrev ruled : Model → Result (Unit {0}) RuleFault → Result Model ModelFault
  ruled m (Ok u) = Ok m
  ruled m (Err fault) = Err (Rule fault)

  -- whence an answer comes: from want of memory, from the form of the file, or from the rules
  data Whence (bytes : List ℕ) (a : Result Model ModelFault) : Type 0 where
    by_memory : a ≡ Err Memory → Whence bytes a
    by_form : (fault : ModelFault) → form_of bytes ≡ Err fault → a ≡ Err fault → Whence bytes a
    by_rules : (m : Model) (r : Result (Unit {0}) RuleFault) → form_of bytes ≡ Ok m → Checks o m r → a ≡ ruled m r → Whence bytes a

  whence : (bytes : List ℕ) (a : Result Model ModelFault) → SaysModel o bytes a → Whence bytes a
  whence bytes (Ok m) h = by_rules m (Ok tt) h.0 h.1 refl
  whence bytes (Err NotToml) h = by_form NotToml h refl
  whence bytes (Err (MissingKey t k)) h = by_form (MissingKey t k) h refl
  whence bytes (Err (WrongKind t k)) h = by_form (WrongKind t k) h refl
  whence bytes (Err (UnknownKey t k)) h = by_form (UnknownKey t k) h refl
  whence bytes (Err (BadNumber t k cause)) h = by_form (BadNumber t k cause) h refl
  whence bytes (Err (BadName t k)) h = by_form (BadName t k) h refl
  whence bytes (Err (UnknownName t k)) h = by_form (UnknownName t k) h refl
  whence bytes (Err (TooMuch t k)) h = by_form (TooMuch t k) h refl
  whence bytes (Err (Rule fault)) h = by_rules h.0 (Err fault) h.1 h.2 refl
  whence bytes (Err Memory) h = by_memory refl

  same : (bytes : List ℕ) (a b : Result Model ModelFault) → Whence bytes a → Whence bytes b → a ≢ Err Memory → b ≢ Err Memory → a ≡ b
  same bytes a b (by_memory e) w n k = absurd (n e)
  same bytes a b (by_form f h e) (by_memory d) n k = absurd (k d)
  same bytes a b (by_form f h e) (by_form g i d) n k = cc
  same bytes a b (by_form f h e) (by_rules m r i checks d) n k = cc
  same bytes a b (by_rules m r i checks d) (by_memory e) n k = absurd (k e)
  same bytes a b (by_rules m r i checks d) (by_form f h e) n k = cc
  same bytes a b (by_rules m r i checks d) (by_rules l s h others e) n k =
      let models : l ≡ m = cc in
      let both : r ≡ s = one_check m r s checks (subst (λ x. Checks o x s) models others) in
      d ∙ ap (ruled m) both ∙ ap (λ (x : Model). ruled x s) (sym models) ∙ sym e

  pub one_answer : (bytes : List ℕ) (a b : Result Model ModelFault) → SaysModel o bytes a → SaysModel o bytes b → a ≢ Err Memory → b ≢ Err Memory → a ≡ b
  one_answer bytes a b h g = same bytes a b (whence bytes a h) (whence bytes b g)
