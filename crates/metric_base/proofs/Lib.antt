pub mod EachMore
