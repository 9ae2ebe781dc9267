use Rattle.std.proofs.Common.{set, ap, ◌∙◌, arith}
use Rattle.theory.specs.Sums.{one}
use Rattle.pruning.proofs.Marking.{byte_one}
use Rattle.pruning.proofs.Written.{marks_more}
use Rattle.pruning.proofs.writing.write_marks.Goals as goal

pub loop-v-preserved : goal.loop-v-preserved
loop-v-preserved g c = λ p gives. ap (set c.loop-v.out c.loop-v.v) (byte_one c.test.result ∙ ap one (gives c.loop-v.v c.test.result c.test.ensures)) ∙ marks_more p c.loop-v.v c.args.out.now c.loop-v.out (omega arith) (c.loop-v.invariant p gives)
