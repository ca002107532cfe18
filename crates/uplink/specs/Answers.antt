-- The answers of the library for C, as the definitions' records.
use Rattle.encoder.specs.Encoding.{EncodeAnswer}
use Rattle.planning.specs.Planning.{PlanningAnswer}
use Rattle.uplink.specs.declared.Encoding.{Encoding}
use Rattle.uplink.specs.declared.Planning.{Planning}

abbrev pub encoded : Encoding → EncodeAnswer
encoded r = record { refusal = r.refusal; additions = r.additions }

abbrev pub planned : Planning → PlanningAnswer
planned r = record { refusal = r.refusal; length = r.length; kept = r.kept; ones = r.ones; gap = r.gap; additions = r.additions }
