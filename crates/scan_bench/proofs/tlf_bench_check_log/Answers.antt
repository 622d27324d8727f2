use Rattle.formats.proofs.Formats.{fit_for}
use Rattle.scan_bench.proofs.tlf_bench_check_log.Goals as goal

pub check-requires : goal.check-requires
check-requires c = fit_for _ c.format_for.ensures
