use Rattle.std.proofs.Common.{◌≡◌, ℕ, Bool, ◌++◌, drop}
use Rattle.theory.specs.Prune.{marks}
use Rattle.pruning.proofs.writing.write_marks.Given as goal

abbrev pub invariant-loop-v : goal.invariant-loop-v
invariant-loop-v g l = (p : ℕ → Bool) → ((v : ℕ) (b : Bool) → goal.F-post g l.test v b → b ≡ p v) → l.out ≡ marks l.v p ++ drop l.v l.fn.out
