use Rattle.std.proofs.Common.{arith}
use Rattle.std.proofs.lemmas.List.{length-append}
use Rattle.listed.proofs.Listing.{place_within, listing_add, listing_skip, listing_last}
use Rattle.listed.proofs.source.Source.list.Goals as goal
use Rattle.listed.proofs.source.Source.list.Goals.{in-Some, in_default}

pub loop-q-preserved : goal.loop-q-preserved
loop-q-preserved g c =
    let x = c.args.self.now in
    let L = c.loop-q in
    let place = c.args.places in
    elim c.match-word_at.branch [
      | in-Some w ↦ rw (w.rules-is, w.push.ensures.items) (record {
        few = simp length-append (omega (arith, L.invariant.few));
        listing = λ p e d. listing_add x L.rules.items w.in-Some.word (L.invariant.listing p e d) c.place.ensures (omega (arith, place_within c.args.group place.start place.end L.q)) w.in-Some.ensures;
      })
      | in_default w ↦ rw w.rules-is (record {
        few = omega arith;
        listing = λ p e d. listing_skip x (L.invariant.listing p e d) c.place.ensures w.in_default.ensures;
      })
    ]

pub returns : goal.returns
returns g c =
    let L = c.loop-q in
    record {
      few = omega arith;
      more = λ p e d. listing_last c.args.self.now (L.invariant.listing p e d) e (omega arith);
    }
