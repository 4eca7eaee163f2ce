-- Replies, and what they make of the buffers.
use Rattle.std.specs.Prelude.{ℕ, ℤ, Bool, true, List}
use Rattle.displ_wire.specs.declared.Asked.{Asked}
use Rattle.displ_wire.specs.declared.Asked.TheVariants as asked
use Rattle.displ_wire.specs.declared.Request.{Request}
use Rattle.displ_wire.specs.Wire.{reply_words}
use Rattle.display_buffers.specs.declared.live.Live.{Live}
use Rattle.display_buffers.specs.Buffers.{with_buffer, without_buffer}
use Rattle.display_buffers.specs.Stock.{Stock, created, destroyed}

-- the reply to a request
abbrev pub reply_to : Request → ℤ → List ℕ
reply_to q status = reply_words q.id q.op status

-- an accepted CREATE makes a buffer of the pages that were mapped for it, an accepted DESTROY takes one away
abbrev pub stock_after : Stock → Asked → Bool → Stock
stock_after s (asked.Create c) true = created s c
stock_after s (asked.Destroy cookie) true = destroyed s cookie
stock_after s asks accepted = s

-- so it is with the buffers alone, where this goes with a buffer that is made: its pages, or, in the rows, its name's number
abbrev pub replied_to : {P : Type 0} → List (Live P) → P → Asked → Bool → List (Live P)
replied_to bs made (asked.Create c) true = with_buffer bs c made
replied_to bs made (asked.Destroy cookie) true = without_buffer cookie bs
replied_to bs made asks accepted = bs
