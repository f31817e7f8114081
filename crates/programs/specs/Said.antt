-- What a line on standard error says.
use Rattle.std.specs.Prelude.{ℕ, List, take}
use Rattle.programs.specs.declared.line.Line.{Line}

-- Its first bytes, as many as count.
abbrev pub said : Line → List ℕ
said l = take l.len l.bytes
