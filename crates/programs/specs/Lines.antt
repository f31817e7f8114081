-- Lines on standard error, and how long they are.
use Rattle.std.specs.Prelude.{ℕ, ◌+◌}
use Rattle.messages.specs.Text.{max_refusal, between}

-- The longest name of a program, and of a file.
abbrev pub max_name : ℕ
max_name = 16

abbrev pub max_path : ℕ
max_path = 4096

-- The longest label, and how long a line's buffer is, `Line::CAPACITY`: a refusal stands behind the label.
abbrev pub max_label : ℕ
max_label = max_name + between + max_path

abbrev pub line_capacity : ℕ
line_capacity = max_label + max_refusal
