use Rattle.std.proofs.Common.{[], ◌∷◌, ◌∙◌, ℕ, List, Bor, map, take, ap, refl, sym, subst}
use Rattle.std.proofs.lemmas.List.{map_more}
use Rattle.std.specs.Prelude.{IfOk, IfSome}
use Rattle.check_texts.specs.Tallies.{tally_of}
use Rattle.tfm_requests.specs.Checking.{AddsFonts}
use Rattle.tfm_requests.specs.Kept.{HaveSameFont}
use Rattle.tfm_requests.specs.Known.{font_bytes_of}
use Rattle.tfm_requests.proofs.CheckingLemmas.{more_added, none_added}
use Rattle.tfm_requests.proofs.checking.check_fonts.Goals as goal

pub loop-name-init : goal.loop-name-init
loop-name-init g c =
    let known = font_bytes_of (g.F.Opens.known c.args.fonts.now.files.now) (g.I.Read.remaining c.args.input.now) in
    let out = g.O.Write.contents c.args.out.now in
    record {
      added = subst (λ tally. AddsFonts c.args.fonts.now.layout known [] out (tally_of []) out tally) (sym c.new-tally.ensures)
          (none_added c.args.fonts.now.layout known out (tally_of []));
      unread = λ is. refl;
    }

pub loop-name-preserved : goal.loop-name-preserved
loop-name-preserved g c =
    let layout = c.args.fonts.now.layout in
    let start = g.I.Read.remaining c.args.input.now in
    let known = font_bytes_of (g.F.Opens.known c.args.fonts.now.files.now) start in
    let names = c.args.names.now in
    let i = c.loop-name.name-index in
    let so_far = c.loop-name.invariant in
    let first = g.O.Write.contents c.args.out.now in
    let now = g.O.Write.contents c.loop-name.out in
    let after = g.O.Write.contents c.write_font.new.out in
    let tally = c.in_ok-tally.tally in
    let kept = c.bytes_once-bytes.ensures.bytes start (λ is. ap g.I.Read.remaining (so_far.unread is)) in
    let adds = subst (λ name. IfOk c.bytes_once-bytes.result (λ bytes. IfSome (known name) (λ all. HaveSameFont bytes.items all)) → AddsFonts layout known (name ∷ []) now c.loop-name.tally after tally)
    c.as_bytes.ensures.value (c.in_ok-tally.ensures.text known) kept in
    record {
      added = subst (λ names. AddsFonts layout known names first (tally_of []) after tally) (sym (map_more (λ (name : Bor (List ℕ)). name.now) names i _ c.loop-name-test.true))
          (more_added layout known (map (λ (name : Bor (List ℕ)). name.now) (take i names)) (_ ∷ []) first now after (tally_of []) c.loop-name.tally tally so_far.added adds);
      unread = λ is. let old = c.bytes_once-bytes.ensures.unread is in old.1 ∙ so_far.unread old.0;
    }
