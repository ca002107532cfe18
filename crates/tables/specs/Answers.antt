-- The answers of the library for C, as the definitions' records.
use Rattle.making.specs.Making.{MakeAnswer}
use Rattle.tables.specs.declared.Making.{Making}

abbrev pub answered : Making → MakeAnswer
answered r = record { refusal = r.refusal; length = r.length }
