use Rattle.std.proofs.Common.{◌≡◌, ◌<◌, None, Some, slice_get, length, refl, sym, ap, ◌∙◌, subst, arith, rules}
use Rattle.std.specs.Option.{option_copied}
use Rattle.std.proofs.lemmas.Option.{slice_get_within}
use Rattle.sh_drafts.proofs.UsedLemmas.{no_row, same_row, row_added, row_noted}
use Rattle.sh_drafts.proofs.used.add_row.Goals as goal

pub returns-in_default-clause-used : goal.returns-in_default-clause-used
returns-in_default-clause-used c = row_added c.args.rows.now c.args.used.now _ c.requires c.in_ok-none.ensures.stay c.in_ok-none.ensures.count refl

pub returns-in_default-clause-moved : goal.returns-in_default-clause-moved
returns-in_default-clause-moved c =
    let none : c.row.result ≡ None = search rules in
    let there = c.in_ok-none.ensures.there in
    no_row c.args.rows.now c.no_names.new.rows.rows c.args.id c.in_ok-none.none (sym c.row.ensures.row ∙ ap option_copied none) (omega (arith, there)) c.in_ok-none.ensures.none

pub index_mut-requires : goal.index_mut-requires
index_mut-requires c =
    let is : slice_get c.args.rows.now.rows c.args.id.index ≡ Some c.in-Some.row.now = sym c.row.ensures.row ∙ ap option_copied c.in-Some.is in
    subst (λ n. c.args.id.index < n) (sym (c.args.used.now.places.ok.0 ∙ c.requires.places)) (slice_get_within c.args.rows.now.rows c.args.id.index c.in-Some.row.now is)

pub returns-clause-used : goal.returns-clause-used
returns-clause-used c =
    let is : slice_get c.args.rows.now.rows c.args.id.index ≡ Some c.in-Some.row.now = sym c.row.ensures.row ∙ ap option_copied c.in-Some.is in
    let low : c.args.id.index < length c.args.used.now.places.items =
    subst (λ n. c.args.id.index < n) (sym c.requires.places) (slice_get_within c.args.rows.now.rows c.args.id.index c.in-Some.row.now is) in
    row_noted c.args.rows.now c.args.used.now _ c.args.id c.in_ok-place.place c.requires c.in_ok-place.ensures.kept c.in_ok-place.ensures.count refl low
    (same_row c.args.rows.now c.intern.new.self.rows c.args.id c.in_ok-place.place c.in-Some.row.now is c.in_ok-place.ensures.known c.in_ok-place.ensures.found)

pub returns-clause-moved : goal.returns-clause-moved
returns-clause-moved c =
    let is : slice_get c.args.rows.now.rows c.args.id.index ≡ Some c.in-Some.row.now = sym c.row.ensures.row ∙ ap option_copied c.in-Some.is in
    same_row c.args.rows.now c.intern.new.self.rows c.args.id c.in_ok-place.place c.in-Some.row.now is c.in_ok-place.ensures.known c.in_ok-place.ensures.found
