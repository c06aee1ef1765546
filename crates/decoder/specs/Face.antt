-- What a crate above the face cites of it: the definitions that its statements are written in, passed on under the face's name, so that nothing under the face
-- has to be cited. The declared types come with their cases behind a name of their own.
-- Assumes nothing: these are definitions.
pub use Rattle.def.specs.Answers.{Answer, after_checks}
pub use Rattle.def.specs.Picture.{size_tests}
unfoldable pub use Rattle.def.specs.Picture.{size_ok}
pub use Rattle.def.specs.Refusals.{number_of}
pub use Rattle.def.specs.declared.Format.{Format}
pub use Rattle.def.specs.declared.Format.TheVariants as formats
pub use Rattle.def.specs.declared.Refusal.{Refusal}
pub use Rattle.def.specs.declared.Refusal.TheVariants as refusals
pub use Rattle.samples.specs.Samples.{sample_ok}
unfoldable pub use Rattle.samples.specs.Samples.{samples_ok}
pub use Rattle.df_laws.specs.Bands as bands
pub use Rattle.df.specs.Deblock as deblocking
pub use Rattle.df_laws.specs.Finished.{Finished}
