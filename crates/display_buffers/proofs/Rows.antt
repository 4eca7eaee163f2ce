-- What is found among the live buffers.
use Rattle.std.proofs.Common.{◌≡◌, ℕ, List}
use Rattle.cookie_table.proofs.Rows as table
use Rattle.display_buffers.specs.declared.live.Live.{Live}
use Rattle.display_buffers.specs.Buffers.{cookie_of, cookies, without_buffer, IsFresh}

-- taking away what isn't there changes nothing
pub without_fresh : {P : Type 0} (cookie : ℕ) (bs : List (Live P)) → IsFresh cookie (cookies bs) → without_buffer cookie bs ≡ bs
without_fresh cookie bs fresh = table.without_fresh cookie_of cookie bs fresh
