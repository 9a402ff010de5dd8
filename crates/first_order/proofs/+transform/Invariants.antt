use Rattle.first_order.proofs.+transform.Given as goal

-- proposed from what the function passes where it calls itself
abbrev pub decreases-transform : goal.decreases-transform
decreases-transform l = l.m
