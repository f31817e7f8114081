-- `content` goes past the content, and its row has where it starts. Assumes nothing.
use mathlib.Core.Path.{refl}
use Rattle.walk.proofs.content.Goals as goal

pub returns : goal.returns
returns c = rw c.new.ensures refl
