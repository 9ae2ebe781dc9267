-- A code's bytes are a text, so the other case never comes.
use Rattle.std.proofs.Common.{◌≡◌, true, rules, ap, ◌∙◌}
use Rattle.std.proofs.lemmas.Bool.{and_parts}
use Rattle.std.proofs.lemmas.Str.{IsUtf8-from_ascii}
use Rattle.std.specs.Str.{IsUtf8}
use Rattle.network.specs.Codes.{is_code}
use Rattle.network.proofs.Spelled.{code_is_text}
use Rattle.network.proofs.code.Code.as_str.Goals as goal

pub returns : goal.returns
returns c =
    let code = c.args.self.now in
    let spelled : is_code c.text.result.now ≡ true = ap is_code c.text.ensures ∙ code.spelled in
    let text : IsUtf8 c.text.result.now = IsUtf8-from_ascii c.text.result.now (code_is_text c.text.result.now (and_parts _ _ (and_parts _ _ spelled).1).1) in
    search rules
