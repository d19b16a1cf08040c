use Rattle.std.proofs.Common.{◌≡◌, fold, take}
use Rattle.sh_rules.specs.Walks as walks
use Rattle.sh_rules.proofs.behind.Behind.pass_links.Given as goal

-- what is known so far is what the links so far leave
abbrev pub invariant-loop-link : goal.invariant-loop-link
invariant-loop-link l = walks.behind_in (walks.setting l.claims) l.self ≡ fold (walks.link_left (walks.setting l.claims)) (walks.behind_in (walks.setting l.claims) l.initial.self) (take l.link-index l.links)
