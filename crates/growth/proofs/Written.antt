-- Records after one of them changed, and after a merge. Assumes nothing.
use Rattle.std.proofs.Common.{◌≡◌, ℕ, ◌<◌, Bool, true, false, cond, ◌||◌, eqb, ◌≢◌, List, length, get_or, sym, refl, ap, ◌∙◌, ⊎_elim, arith}
use Rattle.std.proofs.lemmas.List.{length-set, get_or-set_same, get_or-set_other}
use Rattle.std.proofs.lemmas.Bool.{cases_eq, eq-eqb, ne_eqb, cond-true, cond-false}
use Rattle.growth.specs.Records.{vacant, enclosed, joined_record, at_record, merged_records}
use Rattle.growth.specs.declared.cluster.Cluster.{Cluster}

pub at_record_at : (f : Cluster → Cluster) (cs : List Cluster) (c d : ℕ) → c < length cs → get_or (at_record f cs c) d vacant ≡ cond (eqb d c) (f (get_or cs d vacant)) (get_or cs d vacant)
at_record_at f cs c d l = ⊎_elim
    (λ e. ap (λ j. get_or (at_record f cs c) j vacant) e ∙ get_or-set_same cs c (f (get_or cs c vacant)) vacant l ∙ ap (λ j. f (get_or cs j vacant)) (sym e) ∙ sym (cond-true (eqb d c) (f (get_or cs d vacant)) (get_or cs d vacant) (eq-eqb d c e)))
    (λ e. get_or-set_other cs c d (f (get_or cs c vacant)) vacant e ∙ sym (cond-false (eqb d c) (f (get_or cs d vacant)) (get_or cs d vacant) (ne_eqb d c e)))
    (cases_eq d c)

once_or_twice : (x y : Bool) (k : Cluster) → cond y (enclosed (cond x (enclosed k) k)) (cond x (enclosed k) k) ≡ cond (x || (y || false)) (enclosed k) k
once_or_twice true true k = refl
once_or_twice true false k = refl
once_or_twice false true k = refl
once_or_twice false false k = refl

module _ (cs : List Cluster) (number p q : ℕ) where
  abbrev inner : List Cluster
  inner = at_record enclosed (at_record enclosed cs p) q

  inner_long : length inner ≡ length cs
  inner_long = length-set (at_record enclosed cs p) q (enclosed (get_or (at_record enclosed cs p) q vacant)) ∙ length-set cs p (enclosed (get_or cs p vacant))

  pub merged_new : number < length cs → get_or (merged_records cs number p q) number vacant ≡ joined_record p q
  merged_new l = get_or-set_same inner number (joined_record p q) vacant (let e = inner_long in omega arith)

  pub merged_old : p < length cs → q < length cs → (d : ℕ) → d ≢ number → get_or (merged_records cs number p q) d vacant ≡ cond (eqb d p || (eqb d q || false)) (enclosed (get_or cs d vacant)) (get_or cs d vacant)
  merged_old lp lq d ne =
      get_or-set_other inner number d (joined_record p q) vacant ne
      ∙ at_record_at enclosed (at_record enclosed cs p) q d (let e = length-set cs p (enclosed (get_or cs p vacant)) in omega arith)
      ∙ ap (λ k. cond (eqb d q) (enclosed k) k) (at_record_at enclosed cs p d lp)
      ∙ once_or_twice (eqb d p) (eqb d q) (get_or cs d vacant)
