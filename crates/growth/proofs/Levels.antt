-- Inner moats level by level: the equation that the code follows. Assumes nothing.
use Rattle.std.proofs.Common.{◌≡◌, ℕ, zero, suc, ◌<◌, ◌≤◌, List, Some, None, Option, refl, ap, ◌∙◌, arith}
use Rattle.growth.specs.declared.cluster.Cluster.{Cluster}
use Rattle.growth.specs.Moats.{Falls, moats_within, with_parts, reach, parts_at, moat_at, inner_moats}

-- only the parts are asked
same_parts : (f g : ℕ → ℕ) (c : ℕ) → ((a : ℕ) → a < c → f a ≡ g a) → (o : Option (ℕ × ℕ)) (m : ℕ) → reach o ≤ c → with_parts f o m ≡ with_parts g o m
same_parts f g c same None m h = refl
same_parts f g c same (Some p) m h =
    let ha : p.0 < c = omega arith in
    let hb : p.1 < c = omega arith in
    let ea = same p.0 ha in
    let eb = same p.1 hb in
    omega arith

-- any number of levels above c gives the same
any_levels : (cs : List Cluster) → Falls cs → (n m c : ℕ) → c < n → c < m → moats_within cs n c ≡ moats_within cs m c
unfolding moats_within
any_levels cs falls zero m c hn hm = absurd (omega arith)
any_levels cs falls (suc n) zero c hn hm = absurd (omega arith)
any_levels cs falls (suc n) (suc m) c hn hm =
    same_parts (moats_within cs n) (moats_within cs m) c (λ a h. any_levels cs falls n m a (omega arith) (omega arith)) (parts_at cs c) (moat_at cs c) (falls c)

pub inner_moats_is : (cs : List Cluster) → Falls cs → (c : ℕ) → inner_moats cs c ≡ with_parts (inner_moats cs) (parts_at cs c) (moat_at cs c)
unfolding moats_within
inner_moats_is cs falls c =
    same_parts (moats_within cs c) (inner_moats cs) c (λ a h. any_levels cs falls c (suc a) a h (omega arith)) (parts_at cs c) (moat_at cs c) (falls c)

pub inner_moats_parts : (cs : List Cluster) → Falls cs → (c : ℕ) (o : Option (ℕ × ℕ)) → parts_at cs c ≡ o → inner_moats cs c ≡ with_parts (inner_moats cs) o (moat_at cs c)
inner_moats_parts cs falls c o e = inner_moats_is cs falls c ∙ ap (λ p. with_parts (inner_moats cs) p (moat_at cs c)) e
