use Rattle.pcl_check.proofs.Names.{refl}
use Rattle.std.specs.Fmt.{digits}
use Rattle.pcl_check.proofs.reading.start.raster_start.Goals as goal

pub returns-in-Executive-Dpi300 : goal.returns-in-Executive-Dpi300
returns-in-Executive-Dpi300 c = unfold digits in rw (c.in-Executive-Dpi300.is-0, c.in-Executive-Dpi300.is-1) refl

pub returns-in-Executive-Dpi600 : goal.returns-in-Executive-Dpi600
returns-in-Executive-Dpi600 c = unfold digits in rw (c.in-Executive-Dpi600.is-0, c.in-Executive-Dpi600.is-1) refl

pub returns-in-Letter-Dpi300 : goal.returns-in-Letter-Dpi300
returns-in-Letter-Dpi300 c = unfold digits in rw (c.in-Letter-Dpi300.is-0, c.in-Letter-Dpi300.is-1) refl

pub returns-in-Letter-Dpi600 : goal.returns-in-Letter-Dpi600
returns-in-Letter-Dpi600 c = unfold digits in rw (c.in-Letter-Dpi600.is-0, c.in-Letter-Dpi600.is-1) refl

pub returns-in-Legal-Dpi300 : goal.returns-in-Legal-Dpi300
returns-in-Legal-Dpi300 c = unfold digits in rw (c.in-Legal-Dpi300.is-0, c.in-Legal-Dpi300.is-1) refl

pub returns-in-Legal-Dpi600 : goal.returns-in-Legal-Dpi600
returns-in-Legal-Dpi600 c = unfold digits in rw (c.in-Legal-Dpi600.is-0, c.in-Legal-Dpi600.is-1) refl

pub returns-in-A4-Dpi300 : goal.returns-in-A4-Dpi300
returns-in-A4-Dpi300 c = unfold digits in rw (c.in-A4-Dpi300.is-0, c.in-A4-Dpi300.is-1) refl

pub returns-in-A4-Dpi600 : goal.returns-in-A4-Dpi600
returns-in-A4-Dpi600 c = unfold digits in rw (c.in-A4-Dpi600.is-0, c.in-A4-Dpi600.is-1) refl
