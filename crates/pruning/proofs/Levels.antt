-- A cluster's nodes level by level: the equation that the code follows. Assumes nothing.
use Rattle.std.proofs.Common.{◌≡◌, ℕ, zero, suc, ◌<◌, Bool, true, false, ◌&&◌, ◌||◌, ltb, List, Some, None, Option, refl, ap, ◌∙◌, arith}
use Rattle.std.proofs.lemmas.Bool.{and_parts, ltb-true}
use Rattle.pruning.specs.declared.shape.Shape.{Shape}
use Rattle.pruning.specs.Pruned.{shape_at, of_parts, members_within, member}

-- what stands behind a test that fails is not asked
when : (b x y : Bool) → (b ≡ true → x ≡ y) → (b && x) ≡ (b && y)
when true x y h = h refl
when false x y h = refl

-- only clusters of lower numbers are asked
same_parts : (f g : ℕ → ℕ → Bool) (c v : ℕ) → ((a : ℕ) → a < c → f a v ≡ g a v) → (o : Option (ℕ × ℕ)) → of_parts f c o v ≡ of_parts g c o v
same_parts f g c v same None = refl
same_parts f g c v same (Some p) = when (ltb p.0 c && ltb p.1 c) (f p.0 v || f p.1 v) (g p.0 v || g p.1 v) (λ e.
    let l = and_parts (ltb p.0 c) (ltb p.1 c) e in
    λ k. same p.0 (ltb-true p.0 c l.0) k || same p.1 (ltb-true p.1 c l.1) k)

-- any number of levels above c gives the same
any_levels : (shapes : List Shape) (n m c v : ℕ) → c < n → c < m → members_within shapes n c v ≡ members_within shapes m c v
unfolding members_within
any_levels shapes zero m c v hn hm = absurd (omega arith)
any_levels shapes (suc n) zero c v hn hm = absurd (omega arith)
any_levels shapes (suc n) (suc m) c v hn hm =
    same_parts (members_within shapes n) (members_within shapes m) c v (λ a h. any_levels shapes n m a v (omega arith) (omega arith)) (shape_at shapes c).parts

-- a cluster's nodes by those of its parts
pub member_is : (shapes : List Shape) (c v : ℕ) (o : Option (ℕ × ℕ)) → (shape_at shapes c).parts ≡ o → member shapes c v ≡ of_parts (member shapes) c o v
unfolding members_within
member_is shapes c v o e =
    same_parts (members_within shapes c) (member shapes) c v (λ a h. any_levels shapes c (suc a) a v h (omega arith)) (shape_at shapes c).parts
    ∙ ap (λ p. of_parts (member shapes) c p v) e
