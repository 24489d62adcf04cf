mod InOrder
pub mod OpRows
pub mod PrimRows
