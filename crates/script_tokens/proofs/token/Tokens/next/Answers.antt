use Rattle.std.proofs.Common.{◌≡◌, ℕ, ◌+◌, Option, Some, None, Ok, Err, refl, subst}
use Rattle.std.specs.Option.{option_map, ok_or}
use Rattle.script_tokens.specs.declared.fault.FaultKind.{FaultKind}
use Rattle.script_tokens.specs.declared.fault.FaultKind.TheVariants.{MissingWord}
use Rattle.script_tokens.specs.Flaws.{flaw, or_flaw, Gives}
use Rattle.script_tokens.specs.Cursors.{cursor, seen_token, first_of, next_of}
use Rattle.script_tokens.proofs.token.Tokens.next.Goals as goal

or_gives : {X Y : Type 0} (view : X → Y) (o : Option X) (r : Option Y) (column : ℕ) (kind : FaultKind) → option_map view o ≡ r → Gives view (ok_or o (flaw column kind)) (or_flaw r column kind)
or_gives view None r column kind e = subst (λ (s : Option _). or_flaw s column kind ≡ Err (flaw column kind)) e refl
or_gives view (Some x) r column kind e = subst (λ (s : Option _). or_flaw s column kind ≡ Ok (view x)) e refl

pub returns : goal.returns
unfolding next_of
returns c = rw c.ok_or.ensures.value (or_gives seen_token c.split_first.result (first_of (cursor c.args.self)) (c.args.self.read + 1) MissingWord c.split_first.ensures)
