use Rattle.std.proofs.Common.{◌≡◌, ◌+◌, ◌-◌, [], ◌∷◌, length, get_or, take, drop, MatchOption, refl, ap, ◌∙◌, arith, rules, tests, length-drop}
use Rattle.std.proofs.lemmas.Bool.{ne_eqb}
use Rattle.std.proofs.lemmas.Iterator.{YieldsList-from_slice}
use Rattle.std.proofs.lemmas.Iterator.Search.{position_from_yields_List}
use Rattle.std.proofs.lemmas.List.{take_all, drop-drop}
use Rattle.sheet.specs.Readers.{ahead, is_stop, field_of, behind_field, next_is}
use Rattle.sheet.proofs.Scans.{field_found}
use Rattle.sheet.proofs.reader.Reader.field.Goals.{After-position}
use Rattle.sheet.proofs.reader.Reader.field.Goals as goal

rest_is : (c : After-position) → take (length c.args.self.now.sheet.now - c.args.self.now.at) (ahead c.args.self.now) ≡ ahead c.args.self.now
rest_is c = take_all _ _ (omega (arith, length-drop c.args.self.now.at c.args.self.now.sheet.now))

found : (c : After-position) → MatchOption c.position.result (behind_field (ahead c.args.self.now) ≡ []) (λ n. (take n (ahead c.args.self.now) ≡ field_of (ahead c.args.self.now)) × (behind_field (ahead c.args.self.now) ≡ get_or (ahead c.args.self.now) n 0 ∷ drop (n + 1) (ahead c.args.self.now)))
found c = field_found (ahead c.args.self.now) c.position.result (position_from_yields_List is_stop _ _ c.position.result c.position.ensures.ran (YieldsList-from_slice _ (c.iter.ensures.rest ∙ rest_is c)) (λ x b q k. search (rules, tests)))

pub returns-in_err-len : goal.returns-in_err-len
returns-in_err-len c =
    let none = rw c.in_err-len.was at (found (goal.at.returns-in_err-len c).After-position) in
    rw c.from_residual.ensures (ap (next_is c.args.end) none)

pub returns-then-rest-len : goal.returns-then-rest-len
returns-then-rest-len c =
    let so_far = (goal.at.returns-then-rest-len c).After-position in
    let some = rw c.in_ok-len.was at (found so_far) in
    let other = rw (rest_is so_far) at c.if-rest-len.true in
    ap (next_is c.args.end) some.1 ∙ ne_eqb (get_or (ahead c.args.self.now) c.in_ok-len.len 0) c.args.end other

pub returns : goal.returns
returns c =
    let r = c.args.self.now in
    let so_far = (goal.at.returns c).After-position in
    let some = rw c.in_ok-len.was at (found so_far) in
    let is = rw (rest_is so_far) at c.if-rest-len.false in
    rw (rest_is so_far) (some.0, refl, some.1 ∙ λ i. is i ∷ drop-drop (c.in_ok-len.len + 1) r.at r.sheet.now i)
