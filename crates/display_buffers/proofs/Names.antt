-- Cookies name the live buffers: one comes with a CREATE, one goes with a DESTROY.
use Rattle.std.proofs.Common.{◌≡◌, ◌≢◌, ℕ, true, List, Some, Ok}
use Rattle.cookie_table.specs.Cookies.{AreFew}
use Rattle.cookie_table.proofs.Keys.{all_push}
use Rattle.cookie_table.proofs.Names as table
use Rattle.displ_wire.specs.declared.Create.{Create}
use Rattle.display_buffers.specs.declared.live.Live.{Live}
use Rattle.display_buffers.specs.Buffers.{AreSound, buffer_of, check_of, cookie_of, is_in_range, made_of, with_buffer, without_buffer}
use Rattle.display_buffers.proofs.Checks.{leaves_cookie, leaves_room, passes}

module _ {P : Type 0} where
  pub created_here : (bs : List (Live P)) (c : Create) (pages : P) → check_of bs c ≡ Ok tt → buffer_of c.dbuf_cookie (with_buffer bs c pages) ≡ Some (record { buffer = made_of c; pages = pages })
  created_here bs c pages passed = table.added_here cookie_of bs (record { buffer = made_of c; pages = pages }) (leaves_cookie bs c passed)

  pub created_elsewhere : (bs : List (Live P)) (c : Create) (pages : P) (other : ℕ) → other ≢ c.dbuf_cookie → buffer_of other (with_buffer bs c pages) ≡ buffer_of other bs
  created_elsewhere bs c pages other apart = table.added_elsewhere cookie_of bs (record { buffer = made_of c; pages = pages }) other apart

  few_of : (bs : List (Live P)) → AreSound bs → AreFew cookie_of bs
  few_of bs sound = record { at_most = sound.at_most; distinct = sound.distinct }

  pub sound_with : (bs : List (Live P)) (c : Create) (pages : P) → AreSound bs → check_of bs c ≡ Ok tt → AreSound (with_buffer bs c pages)
  sound_with bs c pages sound passed =
      let b : Live P = record { buffer = made_of c; pages = pages } in
      let few = table.few_with cookie_of bs b (few_of bs sound) (leaves_cookie bs c passed) (leaves_room bs c passed) in
      record {
        at_most = few.at_most;
        distinct = few.distinct;
        in_range = all_push (λ x. is_in_range x.buffer ≡ true) bs b sound.in_range (passes bs c passed).2;
      }

  pub sound_without : (cookie : ℕ) (bs : List (Live P)) → AreSound bs → AreSound (without_buffer cookie bs)
  sound_without cookie bs sound =
      let few = table.few_without cookie_of cookie bs (few_of bs sound) in
      record {
        at_most = few.at_most;
        distinct = few.distinct;
        in_range = table.all_without cookie_of (λ x. is_in_range x.buffer ≡ true) cookie bs sound.in_range;
      }
