-- What a read gave stands behind what was read before it.
use Rattle.std.proofs.Common.{◌≡◌, ℕ, ◌+◌, ◌-◌, ◌≤◌, List, ◌++◌, rules, length, take, sym, ap, ◌∙◌, subst, length-take-le}
use Rattle.std.proofs.lemmas.List.{take-append-le}
use Rattle.std.proofs.Math.Seq.{take-append-add}
use Rattle.std.specs.Io.KnownBytes.{Consumes}
use Rattle.std.proofs.KnownBytes.{Consumes-trans}
use borrow.Rule.Slice.PartMut.{put_mid, post_of}
use Rattle.script.proofs.input.read_full.Goals as goal

take_next : (k n : ℕ) (xs ys : List ℕ) → k ≤ length xs → n ≤ length ys → take k xs ++ take n ys ≡ take (k + n) (put_mid k (length xs - k) xs ys)
take_next k n xs ys within fits =
    let front = take k xs in
    let behind = ys ++ post_of k (length xs - k) xs in
    ap (λ bytes. front ++ bytes) (sym (take-append-le n ys _ fits))
    ∙ sym (take-append-add front behind n)
    ∙ ap (λ m. take (m + n) (front ++ behind)) (length-take-le k xs within)

pub loop-done-preserved : goal.loop-done-preserved
loop-done-preserved g c =
    let read = c.in_ok-count.ensures in
    let before = c.loop-done.invariant in
    let next = take_next c.loop-done.done c.in_ok-count.count c.loop-done.buffer c.read.new.buf before.1 read.bound.0 in
    (search rules, search rules, subst (Consumes _ _) next (Consumes-trans _ _ _ _ _ before.2 read.bytes.0))
