mod Sorts
mod Runs
mod Steadiness
mod Lawful
mod Joints
mod Loops
mod Sinking
pub mod FileLaws
pub mod Verdicts
pub mod GrammarLaws
mod TokenLaws
mod BinaryLaws
mod MoreJoints
mod Forks
mod Respelling
mod TreeClasses
mod ArgumentLaws
mod PostfixLaws
mod OperandLaws
mod UnaryLaws
mod CastLaws
mod SizedLaws
mod LadderLaws
mod ExprLaws
mod DeepExprs
mod ValueLaws
mod EnumLaws
mod TaggedLaws
mod SpecLaws
mod PointerLaws
mod DeclaratorLaws
mod MemberLaws
mod LevelLaws
mod StatementClasses
mod SimpleLaws
mod DeepStatements
mod ItemLaws
mod ElseLaws
mod StmtParts
mod ForLaws
mod StmtLaws
mod DeclarationLaws
mod ParamLaws
mod BodyLaws
mod RestLaws
mod ExternalLaws
mod SinkingParts
mod SinkingFiles
mod EndLaws
mod NoEnds
mod Hearing
mod HearingFiles
mod Marks
mod WholeLaws
pub mod FileReading
pub mod TextLaws
pub mod RowsProof
pub mod TextRowsProof
