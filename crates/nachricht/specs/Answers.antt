-- The answer of a call by what the definitions say of it.
use Rattle.std.specs.Prelude.{ℕ, Err, Ok}
use Rattle.format.specs.declared.bundle.Bundle.{Bundle}
use Rattle.format.specs.declared.failure.Failure.{Failure}
use Rattle.format.specs.Error.{code_of}
use Rattle.format.specs.Answer as answer
use Rattle.nachricht.specs.declared.Answer.{Answer}

unfoldable pub failed_answer : Failure → Answer
failed_answer f = record {
  error = code_of f.error;
  place = f.place;
  side = f.side;
  row = f.row;
  count = 0;
  entries = 0;
  fields = 0;
}

-- the counts of a bundle
unfoldable pub counts_answer : answer.Answer Bundle → Answer
counts_answer (Err f) = failed_answer f
counts_answer (Ok b) = record {
  error = 0;
  place = 0;
  side = 0;
  row = 0;
  count = b.rows;
  entries = b.entries;
  fields = b.fields;
}

-- the number of bytes written
unfoldable pub count_answer : answer.Answer ℕ → Answer
count_answer (Err f) = failed_answer f
count_answer (Ok n) = record { error = 0; place = 0; side = 0; row = 0; count = n; entries = 0; fields = 0 }
