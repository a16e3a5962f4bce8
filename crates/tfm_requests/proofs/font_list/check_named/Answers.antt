use Rattle.std.proofs.Common.{◌≡◌, ◌∙◌, ◌<◌, ℕ, List, [], ◌∷◌, ◌++◌, length, sym, ap, subst}
use Rattle.std.specs.Prelude.{IfOk, IfSome, vec_items}
use Rattle.std.specs.Io.BufRead.{DropsThrough, first_piece}
use Rattle.std.specs.Io.Buffered.{reader_remaining}
use Rattle.std.specs.Io.Iter.{split_byte, split_known_bytes}
use Rattle.tfm_requests.specs.Checking.{AddsFonts, without_empty}
use Rattle.tfm_requests.proofs.CheckingLemmas.{more_added, none_added, reader_unread}
use Rattle.tfm_requests.proofs.NameLemmas.{AreTaken, more_taken, none_taken, some_named}
use Rattle.tfm_requests.proofs.font_list.check_named.Goals as goal

pub loop-name-init : goal.loop-name-init
loop-name-init g c =
    let list = g.L.Read.remaining c.args.list in
    let same = c.into_iter-name-iterator.ensures.into_iter_gives in
    let whole = ap (split_known_bytes (reader_remaining g.L.Read.remaining)) same
    ∙ (c.split-name-items.ensures.bytes ∙ reader_unread g.L.Read.remaining c.in-Ok.list c.args.list c.in-Ok.ensures.inner c.in-Ok.ensures.empty c.in-Ok.ensures.capacity) in (
      ap split_byte same ∙ c.split-name-items.ensures.byte,
      [],
      subst (λ rest. AreTaken c.args.separator list rest []) (sym whole) (none_taken c.args.separator list),
      none_added c.args.fonts.now.layout (g.F.Opens.known c.args.fonts.now.files.now) (g.O.Write.contents c.args.out.now) c.args.tally,
    )

pub loop-name-preserved : goal.loop-name-preserved
loop-name-preserved g c =
    let known = g.F.Opens.known c.args.fonts.now.files.now in
    let layout = c.args.fonts.now.layout in
    let separator = c.args.separator in
    let bytes = split_known_bytes (reader_remaining g.L.Read.remaining) in
    let old = bytes c.loop-name.name-iterator in
    let new = bytes c.next.new.self in
    let now = c.loop-name.invariant in
    let name = c.in-Ok-name.name in
    let steps = c.in-Some.ensures.steps in
    let first = g.O.Write.contents c.args.out.now in
    let out = g.O.Write.contents c.loop-name.out in
    let after = g.O.Write.contents c.check_name.new.out in
    let tally = c.in_ok-tally-in-Ok-name.tally in
    let IsPiece : ℕ → List ℕ → Type 0 = λ s piece. IfSome old (λ all. (0 < length all) × (piece ≡ first_piece s all)) × DropsThrough old new s in
    let piece = subst (λ s. IsPiece s name.items) now.0 (subst (λ item. IfOk item (λ x. IsPiece (split_byte c.loop-name.name-iterator) (vec_items x))) c.in-Ok-name.is steps.2) in
    let adds = subst (λ name. AddsFonts layout known (without_empty (name ∷ [])) out c.loop-name.tally after tally) c.as_slice.ensures.value c.in_ok-tally-in-Ok-name.ensures.text in (
      steps.1 ∙ now.0,
      now.1 ++ without_empty (name.items ∷ []),
      more_taken separator (g.L.Read.remaining c.args.list) old new now.1 name.items now.2 piece.0 piece.1,
      more_added layout known now.1 (without_empty (name.items ∷ [])) first out after c.args.tally c.loop-name.tally tally now.3 adds,
    )

pub returns-in-Err-2-clause-text : goal.returns-in-Err-2-clause-text
returns-in-Err-2-clause-text g c =
    let now = c.loop-name.invariant in
    (now.1, some_named c.args.separator (g.L.Read.remaining c.args.list) _ now.1 now.2, now.3)
