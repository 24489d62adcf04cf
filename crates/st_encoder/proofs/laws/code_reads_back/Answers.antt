use Rattle.st_encoder.proofs.Texts.{method_reads, chunk_reads}
use Rattle.st_encoder.proofs.laws.code_reads_back.Goals as goal

pub returns-clause-method : goal.returns-clause-method
returns-clause-method c tree selector is fits = method_reads tree selector is fits

pub returns-clause-chunk : goal.returns-clause-chunk
returns-clause-chunk c tree is fits = chunk_reads tree is fits
