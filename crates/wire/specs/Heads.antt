-- What the parts of a header go up to.
use Rattle.std.specs.Prelude.{ℕ, ◌+◌, ◌-◌}
use Rattle.format.specs.Code as Code
use Rattle.format.specs.Limits.{max_header}

-- the values of `sz`, the lower five bits of the lead byte
abbrev pub sizes : ℕ
sizes = 32

-- the codes
abbrev pub codes : ℕ
codes = Code.reference + 1

-- the bytes after the lead byte
abbrev pub max_following : ℕ
max_following = max_header - 1
