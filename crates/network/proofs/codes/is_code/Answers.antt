use Rattle.std.proofs.Common.{◌≡◌, true, false, rules, tests, arith}
use Rattle.std.proofs.lemmas.Iterator.{cases_from_all, YieldsList-from_slice}
use Rattle.std.proofs.lemmas.Bool.Decides.{nat_tests}
use Rattle.network.specs.Codes.{all, is_code_byte}
use Rattle.network.proofs.Spelled.{all_decided}
use Rattle.network.proofs.codes.is_code.Goals as goal

pub returns-then-contains : goal.returns-then-contains
returns-then-contains c =
    let text = c.args.text.now in
    let told : c.all.result ≡ all is_code_byte text = all_decided is_code_byte text _ (cases_from_all _ _ _ (λ b. is_code_byte b ≡ true) (λ b. is_code_byte b ≡ false) c.all.ensures.ran (YieldsList-from_slice text cc) (λ x q k. search (rules, tests)) (λ x q k. search (rules, tests))) in
    let few = c.if-contains.ensures.cases in
    grind (arith, nat_tests)
