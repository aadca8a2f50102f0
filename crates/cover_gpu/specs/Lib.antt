-- Painting in tiles four pixels high. All else that the contracts say is of cover_statements and cover.
pub mod GpuPaint
