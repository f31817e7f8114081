-- What a step of each program takes lies in the bytes. Assumes nothing.
use Rattle.stream.specs.Laws.{Takes}
use Rattle.listing.proofs.ListLaws as listing
use Rattle.tidy.proofs.TidyLaws as tidy
use Rattle.runner.specs.Program.{listing_filter, tidy_filter}

pub listing_inside : Takes listing_filter
listing_inside = listing.inside

pub tidy_inside : Takes tidy_filter
tidy_inside = tidy.inside
