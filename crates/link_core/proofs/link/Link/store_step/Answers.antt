use Rattle.std.proofs.Common.{◌≡◌, get_or, refl, arith, sym, ap, ◌∙◌}
use Rattle.pv_words.specs.Plan.{Finished, Make, Plain, Store}
use Rattle.event_ring.specs.Events.{Events, index_after}
use Rattle.link_core.specs.declared.link.Put.TheVariants as put
use Rattle.link_core.specs.Stage.{ring_in}
use Rattle.link_core.specs.Activities.{page_at, word_of}
use Rattle.link_core.specs.Link.{dom_of, held_of, idle, is_joined, joined_of, page_of}
use Rattle.link_core.specs.Raise.{word_at}
use Rattle.link_core.proofs.Raises.{has_room, in_joined_to_write, put_head, put_publishes, put_stores, put_ends, unspent}
use Rattle.link_core.proofs.Transitions.{may_from}
use Rattle.link_core.proofs.link.Link.store_step.Goals as goal

pub returns-then-i-w-clause-keeps : goal.returns-then-i-w-clause-keeps
unfolding dom_of held_of is_joined page_of
returns-then-i-w-clause-keeps g c = record { dom = refl; part = refl; held = refl; is_joined = refl; page = refl }

pub returns-then-i-w-clause-stays : goal.returns-then-i-w-clause-stays
unfolding held_of joined_of
returns-then-i-w-clause-stays g c = λ h. in_joined_to_write c.args.self.now.kept c.args.self.now.ring_page c.args.self.now.event_page c.args.self.now.writes.1 h

pub returns-then-i-w-clause-joined : goal.returns-then-i-w-clause-joined
unfolding joined_of
returns-then-i-w-clause-joined g c = refl

pub returns-clause-keeps : goal.returns-clause-keeps
unfolding dom_of held_of is_joined page_of
returns-clause-keeps g c = record { dom = refl; part = refl; held = refl; is_joined = refl; page = refl }

pub returns-clause-stays : goal.returns-clause-stays
unfolding held_of joined_of
returns-clause-stays g c = λ h. in_joined_to_write c.args.self.now.kept c.args.self.now.ring_page c.args.self.now.event_page c.args.self.now.writes.1 h

pub returns-clause-rests : goal.returns-clause-rests
unfolding idle
returns-clause-rests g c = refl

pub store-requires : goal.store-requires
store-requires g c =
    let l = c.args.self.now in
    let place : c.word-place.result ≡ word_at c.args.layout l.prod l.stored = c.word-place.ensures ∙ ap (λ p. word_at c.args.layout p l.stored) c.new-events.ensures.prod in
    may_from _ _ _ _ (put_head c.args.layout (page_at l.event_page) l.prod l.stored c.args.n c.args.w.now l.stage c.requires.stage c.word-place.result (get_or c.args.w.now l.stored 0) place refl c.if-i-w.true) c.requires.may

pub returns-then-i-w-clause-leads : goal.returns-then-i-w-clause-leads
returns-then-i-w-clause-leads g c =
    let l = c.args.self.now in
    let place : c.word-place.result ≡ word_at c.args.layout l.prod l.stored = c.word-place.ensures ∙ ap (λ p. word_at c.args.layout p l.stored) c.new-events.ensures.prod in
    put_stores c.args.layout (page_at l.event_page) l.prod l.stored c.args.n c.args.w.now l.stage c.requires.stage c.word-place.result (get_or c.args.w.now l.stored 0) place refl c.if-i-w.true

pub published-requires : goal.published-requires
published-requires g c =
    let l = c.args.self.now in
    let below = unspent l.stage l.prod c.requires.stage l.raises in
    has_room c.new-events.result c.args.n c.args.layout.slots c.new-events.ensures.len c.new-events.ensures.limit c.requires.fits.0 c.requires.room (omega (arith, below, c.new-events.ensures.prod))

pub store-requires-2 : goal.store-requires-2
store-requires-2 g c =
    let l = c.args.self.now in
    let value : c.prod-next.result ≡ index_after l.prod c.args.n = c.prod-next.ensures ∙ (ap (λ (e : Events). e.prod) c.published.ensures ∙ ap (λ p. index_after p c.args.n) c.new-events.ensures.prod) in
    let head = put_publishes c.args.layout (page_at l.event_page) l.prod l.stored c.args.n c.args.w.now l.stage c.requires.stage c.if-i-w.false in
    may_from _ _ _ _ (head ∙ ap (λ v. Make (Store (word_of (page_at l.event_page) 1) v) Plain (λ _. Finished put.Done)) (sym value)) c.requires.may

pub returns-clause-leads : goal.returns-clause-leads
returns-clause-leads g c =
    let l = c.args.self.now in
    let value : c.prod-next.result ≡ index_after l.prod c.args.n = c.prod-next.ensures ∙ (ap (λ (e : Events). e.prod) c.published.ensures ∙ ap (λ p. index_after p c.args.n) c.new-events.ensures.prod) in
    put_ends c.args.layout (page_at l.event_page) l.prod l.stored c.args.n c.args.w.now l.stage c.requires.stage c.prod-next.result (Finished put.Full) value c.if-i-w.false

pub returns-clause-joined : goal.returns-clause-joined
unfolding joined_of
returns-clause-joined g c =
    let l = c.args.self.now in
    let value : c.prod-next.result ≡ index_after l.prod c.args.n = c.prod-next.ensures ∙ (ap (λ (e : Events). e.prod) c.published.ensures ∙ ap (λ p. index_after p c.args.n) c.new-events.ensures.prod) in
    ap (λ n. record { ring = ring_in l.kept l.ring_page; event = l.event_page; rsp = l.ring; prod = n }) value
