-- The two programs, as filters, and the buffer for what they make.
use Rattle.std.specs.Prelude.{ℕ, ◌+◌}
use Rattle.stream.specs.Window.{input_capacity}
use Rattle.stream.specs.Run.{Filter}
use Rattle.listed.specs.Text.{max_text}
use Rattle.listing.specs.Printed as listing
use Rattle.tidy.specs.Tidied as tidy

abbrev pub listing_filter : Filter
listing_filter = listing.filter

abbrev pub tidy_filter : Filter
tidy_filter = tidy.filter

-- How long the output's buffer is: `Output::CAPACITY`.
abbrev pub output_capacity : ℕ
output_capacity = input_capacity + max_text
