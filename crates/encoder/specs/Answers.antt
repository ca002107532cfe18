-- What the encoder returns, as the definition's answer.
use Rattle.std.specs.Prelude.{ℕ}
use Rattle.std.specs.declared.result.Result.{Result}
use Rattle.std.specs.declared.result.Result.TheVariants.{Ok, Err}
use Rattle.refusals.specs.declared.Refusal.{Refusal}
use Rattle.refusals.specs.Refusals.{number_of}
use Rattle.encoder.specs.Encoding.{EncodeAnswer, refused_by}

abbrev pub encode_answer_of : Result ℕ Refusal → EncodeAnswer
encode_answer_of (Ok additions) = record { refusal = 0; additions = additions }
encode_answer_of (Err r) = refused_by (number_of r)
