use Rattle.std.proofs.Common.{Some, None, sym, arith}
use Rattle.growth.proofs.Levels.{inner_moats_parts}
use Rattle.growth.proofs.moats.+inner_moats.Goals as goal

pub overflow_add-result : goal.overflow_add-result
overflow_add-result t c =
    let e = inner_moats_parts c.args.clusters.now c.requires.falls c.args.c (Some (c.in-Some.first, c.in-Some.second)) c.in-Some.is in
    omega (arith, e, c.requires.fits c.args.c, c.inner_moats.ensures)

pub overflow_add-result-in-Some : goal.overflow_add-result-in-Some
overflow_add-result-in-Some t c =
    let e = inner_moats_parts c.args.clusters.now c.requires.falls c.args.c (Some (c.in-Some.first, c.in-Some.second)) c.in-Some.is in
    omega (arith, e, c.requires.fits c.args.c, c.inner_moats.ensures, c.inner_moats-in-Some.ensures)

pub returns-in-None : goal.returns-in-None
returns-in-None t c = sym (inner_moats_parts c.args.clusters.now c.requires.falls c.args.c None c.in-None.is)

pub returns-in-Some : goal.returns-in-Some
returns-in-Some t c =
    let e = inner_moats_parts c.args.clusters.now c.requires.falls c.args.c (Some (c.in-Some.first, c.in-Some.second)) c.in-Some.is in
    omega (arith, e, c.inner_moats.ensures, c.inner_moats-in-Some.ensures)
