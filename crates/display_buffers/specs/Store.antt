-- What a store holds.
use Rattle.std.specs.Prelude.{ℕ, length}
use Rattle.page_directory.specs.Release.{left_of}
use Rattle.display_buffers.specs.declared.store.Store.{Store}
use Rattle.display_buffers.specs.Stock.{Stock}

unfoldable pub stock_of : Store → Stock
stock_of s = record { mapped = left_of s.release s.mapped; buffers = s.buffers }

-- how many pages were mapped for a CREATE, those that were given up among them
unfoldable pub count_of : Store → ℕ
count_of s = length s.mapped
