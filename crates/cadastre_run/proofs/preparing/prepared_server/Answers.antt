use Rattle.std.proofs.Common.{◌∙◌, inr, sym}
use Rattle.cadastre_run.proofs.preparing.prepared_server.Goals as goal

pub returns-in-Ok-prepare : goal.returns-in-Ok-prepare
returns-in-Ok-prepare g c = record { new = c.in-Ok.server; stands = c.in-Ok.ensures.made; same = c.in-Ok.ensures.same; reads = c.in-Ok-prepare.ensures }

pub returns-in-Err-prepare : goal.returns-in-Err-prepare
returns-in-Err-prepare g c =
    record {
      fault = c.in-Err-prepare.fault;
      damage = sym c.is_damage.ensures ∙ c.if-is_damage.true;
      read = record { new = c.in-Ok.server; stands = c.in-Ok.ensures.made; same = c.in-Ok.ensures.same; reads = c.in-Err-prepare.ensures };
    }

pub returns-in-Err-2 : goal.returns-in-Err-2
returns-in-Err-2 g c =
    inr (
      c.prepare.new.self,
      record { new = c.in-Ok.server; stands = c.in-Ok.ensures.made; same = c.in-Ok.ensures.same; reads = c.in-Err-prepare.ensures },
      c.release.ensures,
      sym c.is_damage.ensures ∙ c.if-is_damage.false,
    )
