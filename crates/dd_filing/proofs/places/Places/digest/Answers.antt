-- Each version gets the digest of the bytes in its slot.
use Rattle.dd_filing.proofs.Knowing.{is_digested}
use Rattle.dd_filing.proofs.places.Places.digest.Goals as goal

pub returns-clause-first : goal.returns-clause-first
returns-clause-first c =
    is_digested c.args.self.now.first _ _ c.digest_slots.ensures.first c.set_digest.ensures

pub returns-clause-second : goal.returns-clause-second
returns-clause-second c =
    is_digested c.args.self.now.second _ _ c.digest_slots.ensures.second c.set_digest-2.ensures

pub returns-clause-third : goal.returns-clause-third
returns-clause-third c =
    is_digested c.args.self.now.third _ _ c.digest_slots.ensures.third c.set_digest-3.ensures

pub returns-clause-fourth : goal.returns-clause-fourth
returns-clause-fourth c =
    is_digested c.args.self.now.fourth _ _ c.digest_slots.ensures.fourth c.set_digest-4.ensures

pub returns-clause-fifth : goal.returns-clause-fifth
returns-clause-fifth c =
    is_digested c.args.self.now.fifth _ _ c.digest_slots.ensures.fifth c.set_digest-5.ensures

pub returns-clause-sixth : goal.returns-clause-sixth
returns-clause-sixth c =
    is_digested c.args.self.now.sixth _ _ c.digest_slots.ensures.sixth c.set_digest-6.ensures

pub returns-clause-seventh : goal.returns-clause-seventh
returns-clause-seventh c =
    is_digested c.args.self.now.seventh _ _ c.digest_slots.ensures.seventh c.set_digest-7.ensures

pub returns-clause-latest : goal.returns-clause-latest
returns-clause-latest c =
    is_digested c.args.self.now.latest _ _ c.digest_slots.ensures.eighth c.set_digest-8.ensures
