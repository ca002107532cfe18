-- The walk `trace`: the measure is the number of used checks that are still to be looked at.
use Rattle.tracing.proofs.+trace.Given as goal

abbrev pub decreases-trace : goal.decreases-trace
decreases-trace l = l.k
