use Rattle.judge_text.proofs.Classing.{joined_all}
use Rattle.judge_text.proofs.classes.Classes.join.Goals as goal

pub root_of-root-requires : goal.root_of-root-requires
root_of-root-requires c = record {
  formed = c.in_ok-other_place.ensures.formed;
  within = (c.in_ok-other_place.ensures.kept c.args.name.now c.in_ok-place.place c.in_ok-place.ensures.place).within;
}

pub root_of-other_root-requires : goal.root_of-other_root-requires
root_of-other_root-requires c = record {
  formed = c.in_ok-other_place.ensures.formed;
  within = c.in_ok-other_place.ensures.place.within;
}

pub returns-clause-joined : goal.returns-clause-joined
returns-clause-joined c =
    joined_all c.args.self.now c.place_of.new.self c.place_of-2.new.self c.link.new.self c.args.name.now
    c.args.other.now
    c.in_ok-place.place c.in_ok-other_place.other_place c.root_of-root.result c.root_of-other_root.result
    c.in_ok-place.ensures.same c.in_ok-other_place.ensures.same
    (c.in_ok-other_place.ensures.kept c.args.name.now c.in_ok-place.place c.in_ok-place.ensures.place)
    c.in_ok-other_place.ensures.place c.root_of-root.ensures.one c.root_of-other_root.ensures.one
    c.link.ensures.joined
