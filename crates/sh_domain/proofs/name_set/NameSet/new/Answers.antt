use Rattle.std.proofs.Common.{◌≡◌, ◌≤◌, List, ℕ, Vec, Global, [], map, fold, length, sym, ◌∙◌, ap, subst}
use Rattle.std.proofs.lemmas.List.{length-map}
use Rattle.std.proofs.lemmas.Result.{err_from_is_err_and}
use Rattle.sh_domain.specs.Names.{with_text}
use Rattle.sh_domain.proofs.NameLemmas.{numbered, refused_seen, refused_declared, refused_first}
use Rattle.sh_domain.proofs.name_set.NameSet.new.Goals as goal

pub returns-in_err-add_texts : goal.returns-in_err-add_texts
returns-in_err-add_texts c =
    let step = c.from_residual-in_err-add_texts in
    let p = err_from_is_err_and step.result step.ensures.1 in
    let none = map (λ (v : Vec ℕ Global). v.items) c.with_hasher.result.keys in
    let is_none : none ≡ [] = ap (map (λ (v : Vec ℕ Global). v.items)) c.with_hasher.ensures.empty in
    rw (p.1, p.2) (refused_first c.args.script.now c.args.tree.now c.args.policy.now _ none _ c.in_ok-seen.ensures is_none c.in_err-add_texts.ensures.refusal)

pub returns-in_err-add_declared : goal.returns-in_err-add_declared
returns-in_err-add_declared c =
    let step = c.from_residual-in_err-add_declared in
    let p = err_from_is_err_and step.result step.ensures.1 in
    let none = map (λ (v : Vec ℕ Global). v.items) c.with_hasher.result.keys in
    let is_none : none ≡ [] = ap (map (λ (v : Vec ℕ Global). v.items)) c.with_hasher.ensures.empty in
    let refusal = rw c.names-declared.ensures.texts at c.in_err-add_declared.ensures.refusal in
    rw (p.1, p.2) (refused_declared c.args.script.now c.args.tree.now c.args.policy.now _ none c.add_texts.new.self _ c.in_ok-seen.ensures is_none c.in_ok-add_texts.ensures.names refusal)

pub returns-in_err-add_seen : goal.returns-in_err-add_seen
returns-in_err-add_seen c =
    let step = c.from_residual-in_err-add_seen in
    let p = err_from_is_err_and step.result step.ensures.1 in
    let none = map (λ (v : Vec ℕ Global). v.items) c.with_hasher.result.keys in
    let is_none : none ≡ [] = ap (map (λ (v : Vec ℕ Global). v.items)) c.with_hasher.ensures.empty in
    let declared : c.add_declared.new.self ≡ fold with_text c.add_texts.new.self c.args.policy.now.names = c.in_ok-add_declared.ensures.names ∙ ap (fold with_text c.add_texts.new.self) c.names-declared.ensures.texts in
    let refusal = rw c.deref.ensures.value at c.in_err-add_seen.ensures.refusal in
    rw (p.1, p.2) (refused_seen c.args.script.now c.args.tree.now c.args.policy.now _ none c.add_texts.new.self c.add_declared.new.self _ c.in_ok-seen.ensures is_none c.in_ok-add_texts.ensures.names declared refusal)

pub returns : goal.returns
returns c =
    let none = map (λ (v : Vec ℕ Global). v.items) c.with_hasher.result.keys in
    let is_none : none ≡ [] = ap (map (λ (v : Vec ℕ Global). v.items)) c.with_hasher.ensures.empty in
    let declared : c.add_declared.new.self ≡ fold with_text c.add_texts.new.self c.args.policy.now.names = c.in_ok-add_declared.ensures.names ∙ ap (fold with_text c.add_texts.new.self) c.names-declared.ensures.texts in
    let all = rw c.deref.ensures.value at c.in_ok-add_seen.ensures.names in
    let few : length c.add_seen.new.self ≤ 4096 =
    subst (λ (names : List (List ℕ)). length names ≤ 4096) c.names-3.view_is
    (subst (λ (n : ℕ). n ≤ 4096) (sym (length-map c.names-3.inside.set.keys (λ (v : Vec ℕ Global). v.items))) c.names-3.invariant) in
    (record { seen = _; in_order = c.in_ok-seen.ensures; each_once = numbered c.args.policy.now _ none c.add_texts.new.self c.add_declared.new.self c.add_seen.new.self is_none c.in_ok-add_texts.ensures.names declared all }, few)
