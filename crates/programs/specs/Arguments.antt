-- What one argument asks for, and what all of them may.
use Rattle.std.specs.Prelude.{ℕ, ◌≤◌, ◌<◌, List, take}
use Rattle.format.specs.Choice.{pick}
use Rattle.format.specs.Names.{same}
use Rattle.ascii.specs.Text.{ascii}
use Rattle.programs.specs.declared.arguments.Argument.{Argument}
use Rattle.programs.specs.declared.arguments.Argument.TheVariants.{File, Help, Version, Unknown}
use Rattle.programs.specs.declared.arguments.Request.{Request}
use Rattle.programs.specs.declared.arguments.Request.TheVariants as request

-- What begins with `-` is no file's name.
unfoldable pub argument_of : List ℕ → Argument
argument_of word =
    pick (same (take 1 word) (ascii "-")) (pick (same word (ascii "--help")) Help (pick (same word (ascii "--version")) Version Unknown)) File

-- Of so many arguments: an option that there is not stands behind the program's own name. Which they are no contract can say.
abbrev pub Asks : ℕ → Request → Type 0
Asks count request.Run = Unit
Asks count request.Help = Unit
Asks count request.Version = Unit
Asks count (request.Unknown i) = (1 ≤ i) × (i < count)
