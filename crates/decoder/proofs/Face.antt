-- What a crate above the face cites of its proofs, passed on under the face's name.
--     number_apart, number_some    the numbers tell refusals apart, and none is 0
--     sample_any, samples_pass    what the test of samples tells, and when it passes
--     finished    deblocking leaves no sample over 1023
-- Assumes nothing.
pub use Rattle.def.proofs.Answers.{number_apart, number_some}
pub use Rattle.samples.proofs.Samples.{sample_any, samples_pass}
pub use Rattle.df_laws.proofs.Finished.{finished}
