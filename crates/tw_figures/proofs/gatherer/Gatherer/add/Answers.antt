use Rattle.std.proofs.Common.{◌++◌, ◌∷◌, [], length, ap, sym, subst, arith}
use Rattle.std.proofs.lemmas.List.{length-append}
use Rattle.tw_figures.specs.Gathered.{IsMember}
use Rattle.tw_figures.proofs.Gathering.{Members, added}
use Rattle.tw_figures.proofs.gatherer.Gatherer.add.Goals as goal

pub returns-clause-gathered : goal.returns-clause-gathered
returns-clause-gathered c from starts h =
    let items = c.in_ok-push.ensures.items in
    let more = added from starts c.args.words.now c.args.self.now.members.items c.in_ok-member.member h.size (record { each = h.members })
    (subst (λ n. IsMember n c.args.words.now [] c.in_ok-member.member) h.begin c.in_ok-member.ensures.member) in
    record {
      begin = h.begin;
      size = (let a = ap length items in let l = length-append c.args.self.now.members.items (c.in_ok-member.member ∷ []) in let s = length-append starts (c.args.words.now ∷ []) in let was = h.size in omega (arith, a, l, s, was));
      members = (subst (Members from (starts ++ c.args.words.now ∷ []) []) (sym items) more).each;
      counted = record { records = h.counted.records; microsteps = h.counted.microsteps };
    }
