-- A new world.
use Rattle.std.proofs.Common.{◌≡◌, ◌⊎◌, inl, inr, ℕ, List, [], ◌∷◌, sym, subst}
use Rattle.std.specs.List.{AllByRecursion}
use Rattle.pv_words.specs.declared.setup.DeviceSetup.{DeviceSetup}
use Rattle.pv_words.specs.Held.{Holds, holds_of}
use Rattle.pv_words.specs.Port.{IsFree, IsListed, Listing, Lists, Port, no_listing}
use Rattle.pv_words.proofs.Listing.{lists_none}
use Rattle.pv_world.specs.declared.world.Placed.{Placed}
use Rattle.backend_core.specs.Device.{StandsFor}
use Rattle.backend_core.specs.History.{AreApart, IsExplainedIn, IsPromptIn, site_of}
use Rattle.backend_core.proofs.EachKind.{first_explained, first_holds, first_settled}
use Rattle.pv_world.specs.World.{AreDeclaredAs, IsDeclaredAs, IsNew, IsPlaced, Sight, Stands, setups}
use Rattle.pv_world.proofs.Devices.{setups_as}
use Rattle.backend_core.proofs.Histories.{all_of}

-- a port that lists nothing lists all that a device holds which holds nothing
nothing_listed : (p : Port) (d : ℕ) → (IsFree p ⊎ (p.listed d ≡ no_listing)) → IsListed p d (holds_of [])
nothing_listed p d (inl e) = inl e
nothing_listed p d (inr e) = inr (subst (λ (l : Listing). Lists l (holds_of [])) (sym e) lists_none)

module _ {W : Type 0} (g : Sight W) (frames grants : ℕ → ℕ) (memory : W) where
  placed_first : (s : DeviceSetup) (p : Placed) → IsDeclaredAs s p → g.knows_device memory s.dev.0 s.dom.0 → IsListed (g.port memory) s.dev.0 (holds_of []) → IsPlaced g frames grants memory [] p
  placed_first s p h k l =
      record {
        stands = subst (λ (x : DeviceSetup). StandsFor x.kind (site_of frames grants x) p.device []) (sym h.setup_is) (h.stands frames grants);
        settled = first_settled p.setup.kind (site_of frames grants p.setup);
        nodes_are = h.nodes_are;
        known = subst (λ (x : DeviceSetup). g.knows_device memory x.dev.0 x.dom.0) (sym h.setup_is) k;
        listed = subst (λ (k : Holds). IsListed (g.port memory) p.setup.dev.0 k) (sym (first_holds frames grants p.setup)) (subst (λ (x : DeviceSetup). IsListed (g.port memory) x.dev.0 (holds_of [])) (sym h.setup_is) l);
      }

  all_placed : (ss : List DeviceSetup) (ps : List Placed) → ((d : ℕ) → IsListed (g.port memory) d (holds_of [])) → AreDeclaredAs ss ps → AllByRecursion (λ s. g.knows_device memory s.dev.0 s.dom.0) ss → AllByRecursion (IsPlaced g frames grants memory []) ps
  all_placed [] [] l h k = tt
  all_placed [] (p ∷ ps) l h k = absurd h
  all_placed (s ∷ ss) [] l h k = absurd h
  all_placed (s ∷ ss) (p ∷ ps) l h k = (placed_first s p h.0 k.0 (l s.dev.0), all_placed ss ps l h.1 k.1)

  pub new_stands : (ss : List DeviceSetup) (ps : List Placed) → IsNew g frames grants memory ss → AreDeclaredAs ss ps → Stands g frames grants memory ps []
  new_stands ss ps n h =
      record {
        frames_are = n.frames_are;
        grants_are = n.grants_are;
        words_are = λ q r. n.words_are q;
        whole = n.whole;
        domains = n.domains;
        apart = subst (λ (x : List DeviceSetup). AreApart x) (sym (setups_as ss ps h)) n.apart;
        placed = all_placed ss ps (λ d. nothing_listed (g.port memory) d (n.listed d)) h n.known;
        so_far = record { lawful = tt; belongs = tt; explained = all_of (IsExplainedIn frames grants []) (λ s. first_explained s.kind (site_of frames grants s)) (setups ps) };
        prompt = all_of (IsPromptIn frames grants []) (λ s. tt) (setups ps);
      }
