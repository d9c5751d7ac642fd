-- The laws of lines of figures.
pub mod FigureLaws
