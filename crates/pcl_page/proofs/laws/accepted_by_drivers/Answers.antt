use Rattle.std.proofs.Common.{◌∙◌, sym, ap}
use Rattle.pcl_page.proofs.Names.{of_job, Performance, pages_of, asks_among}
use Rattle.pcl_page.proofs.ByDrivers.{performance_alike}
use Rattle.pcl_page.proofs.laws.accepted_by_drivers.Goals as goal

pub returns : goal.returns
returns c = record {
  pages = λ dpi job pages p.
      let same = performance_alike dpi job p.commands p.accepted in
      record {
        commands = p.commands;
        reading = c.read_by_drivers.ensures job p.commands p.reading;
        accepted = ap (λ (done : Performance). done.refusal) same;
        ejected = p.ejected ∙ sym (ap pages_of same);
      };
  asks = λ dpi job asks p.
      let same = performance_alike dpi job p.commands p.accepted in
      record {
        commands = p.commands;
        reading = c.read_by_drivers.ensures job p.commands p.reading;
        accepted = ap (λ (done : Performance). done.refusal) same;
        asked = p.asked ∙ sym (ap (λ (done : Performance). of_job job (asks_among done)) same);
      };
}
