use Rattle.live_view.proofs.Counts.{image_counts}
use Rattle.live_view.proofs.counted.ImageStockCounted.counts_are_of_table.Goals as goal

pub returns : goal.returns
returns c = image_counts c.canonical_table_exists.ensures c.modules_are_graded_modules.ensures c.empty_start_is_canonical.ensures c.squares_in_stems_are_those_of_table.ensures
