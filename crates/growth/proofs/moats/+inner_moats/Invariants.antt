use Rattle.growth.proofs.moats.+inner_moats.Given as goal

abbrev pub decreases-inner_moats : goal.decreases-inner_moats
decreases-inner_moats l = l.c
